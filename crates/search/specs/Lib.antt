pub mod Seeking
pub mod Ranking
