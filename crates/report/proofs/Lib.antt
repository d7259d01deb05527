mod TextFacts
mod ReadFacts
mod TakeFacts
mod LengthFacts
mod ReportFacts
mod TellFacts
mod SplitFacts
mod ShortFacts
