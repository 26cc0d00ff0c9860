mod Keywords
mod ScriptWords
mod ScriptLines
mod ScriptLineEnds
pub mod ScriptParts
pub mod WorkerPrograms
mod TurnLines
mod WorldEnds
mod TextPieces
mod RunnableScripts
mod PrintedRuns
mod ToldLines
