mod ClassFacts
mod CountFacts
mod CreationFacts
mod ListFacts
mod WaitingFacts
