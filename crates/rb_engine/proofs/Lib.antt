mod RingTurns
mod OneRing
mod KeptRecords
mod FrontRecords
mod Noting
