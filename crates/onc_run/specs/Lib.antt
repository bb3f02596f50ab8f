-- A run within the limits: Run.antt is the definition, Steps.antt what the functions leave.
pub mod Run
pub mod Steps
