-- What request 3 promises of mirrored loops, and an oven with its two mirror images for which it is computed.
pub mod Mirrors
pub mod Witnesses
