-- Tables at three moments.
pub mod Standings
-- Pages of ids.
pub mod Pages
-- What is read of the stages.
pub mod Seen
-- Facts and links.
pub mod Telling
pub mod Questions
pub mod Rises
pub mod Leading
-- Values of cells.
pub mod PlainValues
pub mod Inserting
pub mod Filling
pub mod NativeMeaning
pub mod NativeValues
pub mod TypedCells
pub mod BehindLinks
-- Values behind a change.
pub mod MarkedValues
pub mod TakenOut
pub mod Unbroken
pub mod OwnFaults
pub mod Ticking
-- Rows and their kept forms.
pub mod KeptForms
pub mod SoundForms
pub mod OrderedLinks
pub mod IdFields
-- Rows that are read.
pub mod KeptLoops
pub mod RowReads
pub mod OneRead
pub mod ReadPages
pub mod ReadModels
-- What is read of a store.
pub mod MadeTables
pub mod SameTables
pub mod OpenedTables
pub mod Inconsistent
pub mod CellOrder
pub mod StoredRising
pub mod FirstShown
pub mod PagedRows
pub mod Opened
pub mod Begun
-- Changes of a store.
pub mod Changing
pub mod OnceEach
pub mod Gathering
pub mod KeptValues
pub mod PutForms
pub mod KeptAfter
pub mod LastingForms
pub mod Listed
pub mod HeldSteps
-- Calls.
pub mod Refusing
pub mod Asking
pub mod CallerLemmas
