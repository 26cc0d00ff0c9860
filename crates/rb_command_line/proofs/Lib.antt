mod CommandEndings
mod ParsedCommands
mod SingleCommands
