pub mod Agents
pub mod Laws
pub mod Runs
pub mod SoundStates
pub mod States
pub mod Steps
