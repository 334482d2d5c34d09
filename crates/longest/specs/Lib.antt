pub mod LongestPage
