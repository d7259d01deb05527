pub mod WrittenFacts
pub mod LineFacts
pub mod DecimalFacts
