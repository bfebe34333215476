pub mod ExpressionText
pub mod Evaluation
pub mod OneMove
