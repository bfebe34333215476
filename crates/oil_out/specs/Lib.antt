pub mod OilText
