mod StageActs
mod LeftRuns
mod StoppedStages
mod WholeEnds
mod Iterated
mod FileNumbers
mod Restarted
mod LineFronts
