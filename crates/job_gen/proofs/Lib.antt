mod Totals
mod Rounds
mod Told
mod Examples
mod Formed
