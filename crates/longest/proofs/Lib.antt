pub mod LongestLoop
