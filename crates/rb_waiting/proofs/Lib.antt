mod Asked
mod Looked
mod Rings
mod Sums
mod RingSizes
