mod Drained
mod Formed
