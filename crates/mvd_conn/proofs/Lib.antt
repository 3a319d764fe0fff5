pub mod Guarded
pub mod Hellos
pub mod CourseLemmas
pub mod FrontLemmas
pub mod KeptLemmas
pub mod LengthLemmas
pub mod Owing
pub mod StandLemmas
