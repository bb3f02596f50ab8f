-- What the harness gets of a call: Reported.antt for the k-means leaves, Next.antt for the inner forms.
pub mod Reported
pub mod Next
