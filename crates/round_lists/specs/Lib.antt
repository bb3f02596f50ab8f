-- Where a round keeps its base, and what the functions ask and leave.
pub mod Steps
