-- The kernel: a profile of OSEK/VDX OS 2.2.3. Each file has one notion, from the lists of jobs up to the system.
pub mod Status
pub mod Rules
pub mod Scheduler
pub mod Dispatch
pub mod TaskServices
pub mod ResourceServices
pub mod EventServices
pub mod Clock
pub mod AlarmServices
pub mod State
pub mod Service
pub mod Tick
pub mod Start
pub mod System
pub mod Invariant
pub mod Coherent
