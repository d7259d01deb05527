pub mod FaultFacts
