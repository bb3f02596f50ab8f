-- A round with its re-clustering: Steps.antt says what the function asks and leaves. The definition is in
-- round/specs/Round.antt, and the demands on a whole run are in onc/specs/Demands.antt.
pub mod Steps
