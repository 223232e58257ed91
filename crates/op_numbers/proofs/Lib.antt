pub mod OpNumbers
