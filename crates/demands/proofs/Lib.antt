-- The user's demands, one file each; that their hypotheses can be met; the small system of document 01.
pub mod Demand1
pub mod Demand2
pub mod Demand3
pub mod Instance
pub mod SmallSystem
