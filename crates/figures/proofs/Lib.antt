pub mod FigureFacts
pub mod FigureLaws
pub mod HeadingFacts
