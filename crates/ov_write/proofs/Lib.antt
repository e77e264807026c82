-- The text of an object goes on name by name.
pub mod Putting
-- The text of an object whose names rise reads as the object.
pub mod Rising
-- The canonical text of a line says the line.
pub mod Canon
