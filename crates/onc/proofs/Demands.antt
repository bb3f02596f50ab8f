-- The three demands, of every call (specs/Demands.antt).
use Rattle.draws.proofs.Claim.{count_claim}
use Rattle.onc.specs.Demands.{Demands}
use Rattle.onc.proofs.Calls.{first}
use Rattle.onc.proofs.Groupings.{second}
use Rattle.onc.proofs.Reading.{third}
use Rattle.onc.proofs.TwoNames.{apart}

pub demands : Demands
demands = record { first = first; second = second; third = third; counts = count_claim; apart = apart }
