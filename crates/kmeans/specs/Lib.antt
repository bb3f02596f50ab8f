-- k-means (Clustering.antt): k-means++ (plusplus/specs/Seeding.antt), then Lloyd's passes (lloyd_pass/specs/Passes.antt). Steps.antt has what the functions answer and leave.
pub mod Clustering
pub mod Steps
