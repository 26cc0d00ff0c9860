mod Fronts
mod Records
mod RunEnd
mod ShapeRefusals
mod TapeLooks
pub mod TapesLeft
mod LooseValues
mod HandleSteps
mod EngineTakes
