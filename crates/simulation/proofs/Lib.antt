-- A program that is preempted between any two statements follows the bytecode: a forward simulation, proved once for
-- every relation between the actors of the two runs whose statements, each run alone, are lawful.
pub mod Along
pub mod Actors
pub mod Lawful
pub mod Glides
pub mod Moves
pub mod Runs
pub mod Kernel
pub mod NeverStuck
pub mod OneStep
pub mod Statements
