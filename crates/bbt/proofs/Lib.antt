-- laws of the rules, that code and other laws cite
pub mod Searches
pub mod ToldSteps
pub mod Bitmaps
pub mod Parting
pub mod Raw
pub mod Views
pub mod Dependence
-- demand 3: pages and blocks, the invariant's forms, a copy being written, what is planned, at first and after failed steps, every event, and the
-- theorem
pub mod LeftPages
pub mod Blocks
pub mod Forms
pub mod Outcomes
pub mod Placing
pub mod Updating
pub mod Planning
pub mod Ready
pub mod Numbering
pub mod Failing
pub mod Anew
pub mod Working
pub mod Invariant
pub mod Events
pub mod Course
pub mod PowerCuts
-- a plan carried out uncut
pub mod Retires
pub mod CarriedOut
-- one chip with two sizes of its region
pub mod Sizes
-- that nothing is left out of the histories, and that every settled table is a start
pub mod AllBytes
pub mod Putting
pub mod Possible
pub mod NothingLeftOut
pub mod Starts
