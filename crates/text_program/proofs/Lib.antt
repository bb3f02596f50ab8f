-- What is printed of a call's answer, of a request, and of a text of the layout.
pub mod Answers
pub mod Requests
pub mod Claim
