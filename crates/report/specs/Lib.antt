pub mod PulseTexts
pub mod Reports
pub mod Worked
