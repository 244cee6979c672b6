pub mod Tests
pub mod Numbers
pub mod CodeLaws
pub mod Largest
pub mod OctaveLaws
