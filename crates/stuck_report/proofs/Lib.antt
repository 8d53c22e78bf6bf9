mod PlaceFacts
mod Examples
