-- Walks through the regions and the runs of a plan, and what an opening leaves and replies.
pub mod Walk
pub mod Steps
pub mod CardRuns
pub mod Opens
pub mod Admitted
