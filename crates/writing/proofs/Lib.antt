pub mod RecordFacts
pub mod BackFacts
pub mod BackLines
pub mod BackText
pub mod AgreeFacts
