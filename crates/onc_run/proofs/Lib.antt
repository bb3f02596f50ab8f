-- Laws of the run (Runs.antt), and from what the calls leave to what the functions promise (Running.antt).
pub mod Runs
pub mod Running
