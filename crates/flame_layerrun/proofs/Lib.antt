mod RankedFunctions
mod RankedLayers
mod LayerSteps
mod SentWeights
mod BroughtFields
mod BaggedGains
mod ColumnedLanes
mod TasksDone
mod WholeLayers
mod ListedOutputs
mod OpenedTasks
pub mod OpenedFunctions
mod BroughtGains
mod DoneJobs
mod LongerLanes
mod RunTasks
mod SentParts
mod RunChoices
