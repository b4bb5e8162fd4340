pub mod LawfulCounts
