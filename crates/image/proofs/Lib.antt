-- Laws of the image.
pub mod Lengths
pub mod Largest
pub mod Scanned
pub mod Imaged
pub mod Reloading
