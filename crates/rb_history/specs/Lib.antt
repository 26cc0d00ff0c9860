-- The definitions on which the theorem of a shared ring rests, in reading order (docs/READ_THE_THEOREM.md).
pub mod Span
pub mod History
pub mod RoomRule
pub mod Legal
pub mod Counting
pub mod WorkerCounts
pub mod RingModel
-- The effects of calls, and the layout of records in memory and on a tape.
pub mod Header
pub mod TapeBytes
pub mod NoticesAndQueries
pub mod ReservationModel
pub mod Calls
pub mod ManyTakes
pub mod StoredRecords
pub mod OneCall
pub mod inner
