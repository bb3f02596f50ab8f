-- StdRng of rand 0.10, as its source says (docs/src/rand): Seeds.antt is how a number of 64 bits becomes a key, Words.antt the words of a key and what is drawn
-- from them, States.antt what the functions ask of a generator and leave.
pub mod Seeds
pub mod Words
pub mod States
pub mod Streams
