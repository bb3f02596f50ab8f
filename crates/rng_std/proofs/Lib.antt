-- Products.antt: products of words, and a step of the state by halves. Ranges.antt: a word is below 2 ^ 32, an index below its limit, a share below 2 ^ 53, and
-- at most two words are taken for one draw. Chunks.antt: a generator's list. Drawing.antt: a draw by the words that it takes. Streams.antt: the first draws of some seeds, computed.
pub mod Products
pub mod Ranges
pub mod Streams
pub mod Chunks
pub mod Drawing
