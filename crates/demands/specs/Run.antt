-- The calls of demand 3 run one after another as definitions: what `traces` goes by, and what follows for cards.
pub mod Station
pub mod Demand3
pub mod Receiving
