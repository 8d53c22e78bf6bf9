mod Sessions
mod Formed
