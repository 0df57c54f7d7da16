pub mod Bench
pub mod Worked
pub mod Further
pub mod Table
