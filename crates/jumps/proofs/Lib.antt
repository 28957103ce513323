pub mod FirstOfLaws
pub mod JumpAccepted
pub mod FirstTrips
pub mod JumpMeans
pub mod QuickSum
