use mathlib.Core.Path.{◌∙◌, refl}
use native.Mathlib.Omega.{arith}
use Rattle.std.proofs.lemmas.Slice.{put_mid-paste}
use Rattle.text_writing.proofs.Stores.{pasted}
use Rattle.text_writing.proofs.put_bytes.Goals as goal

pub returns : goal.returns
returns c =
    record {
      stored =
          put_mid-paste c.args.at _ c.args.out.now _ c.args.word.now _ c.copy_from_slice.ensures.after (omega arith) refl
          ∙ pasted c.args.at c.args.out.now c.args.word.now c.requires;
      end = refl;
    }
