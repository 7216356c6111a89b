mod Common
mod SteadinessLaws
mod Looked
mod Totals
mod VisitLemmas
mod Accepting
mod FrameTold
pub mod OneVerdict
pub mod LineEvents
pub mod StepMoves
pub mod InstanceMoves
pub mod LinesFold
pub mod Runs
pub mod Covered
mod Steps
mod Timer
mod Ram
mod EntryTurn
mod ReturnTurn
mod Entries
mod Quiet
mod Cells
mod Fitting
mod BoxesCovered
mod Forth
mod Timing
mod Returns
mod Restored
mod Enters
mod Back
mod Headline
mod Beginning
mod ClockRuns
mod MainTime
mod LevelFound
mod NotEmpty
mod Fits
mod Premises
mod LocalTells
mod LimitsTell
mod AcceptedPremises
mod Changes
mod RunParts
mod EventLists
mod Falls
mod LinesKept
mod Order
mod Keeps
mod ReturnTimes
mod Positions
mod FrameRules
mod OldRules
mod OldTimer
