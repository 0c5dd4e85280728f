-- What the functions that are not public ask of each other. No public promise and no theorem cites it.
pub mod Rest
