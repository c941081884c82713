mod Places
mod Images
mod CoreRuns
