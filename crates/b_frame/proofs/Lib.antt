pub mod FromTheTop
