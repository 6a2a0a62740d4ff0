pub mod HeaderChecks
