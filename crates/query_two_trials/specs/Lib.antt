pub mod TwoTrials
