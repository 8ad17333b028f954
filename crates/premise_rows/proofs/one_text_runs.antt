pub mod OneTextRuns
