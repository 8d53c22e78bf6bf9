mod LinkFacts
mod Offered
mod OpeningFacts
mod PostFacts
mod RoomFacts
mod RunFacts
mod StepFacts
